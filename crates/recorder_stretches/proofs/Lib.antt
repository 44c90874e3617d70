mod Bodies
mod Alone
mod Marks
mod Chains
mod Lent
