mod Examples
mod Lines
