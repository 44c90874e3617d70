pub mod Written
pub mod Printed
