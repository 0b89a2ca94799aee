mod Counting
mod Following
