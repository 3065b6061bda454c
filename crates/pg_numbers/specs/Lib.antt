-- Values of NUMERIC, FLOAT4 and FLOAT8.
pub mod CatalogTypes
pub mod FloatTexts
pub mod Floats
pub mod Laws
pub mod Numeric
pub mod NumericCells
pub mod NumericOrder
pub mod NumericExponents
pub mod NumericTexts
