mod Adding
mod Parameters
