mod Finds
mod Stages
