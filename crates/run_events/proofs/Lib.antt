mod Items
mod Written
