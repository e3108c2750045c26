mod HexDigits
pub mod Decimals
pub mod HexNumbers
pub mod Hexes
pub mod Lists
pub mod Printing
pub mod Splits
