mod Sides
mod Known
