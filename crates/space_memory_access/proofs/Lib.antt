mod Causes
mod Firsts
mod Open
mod Rights
