mod Spelled
mod Rows
mod Tables
