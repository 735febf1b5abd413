mod Names
mod Parts
mod Rows
