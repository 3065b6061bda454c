-- Values of types that the library leaves out.
pub mod Macaddr8
