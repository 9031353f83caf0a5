mod Common
mod Calls
