mod Lines
mod Links
