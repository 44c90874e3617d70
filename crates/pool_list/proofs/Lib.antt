mod Order
mod Gap
