pub mod Mine
pub mod Said
