-- The lemmas of this crate's proofs.
mod Digits
mod Printing
mod Requests
mod Types
