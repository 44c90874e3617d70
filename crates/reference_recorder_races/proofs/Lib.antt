pub mod Bits
pub mod Leasts
pub mod Anys
pub mod OneMark
pub mod Knowing
pub mod Firsts
