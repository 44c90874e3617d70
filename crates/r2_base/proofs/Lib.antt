pub mod Decimals
pub mod Growing
pub mod HexDigits
