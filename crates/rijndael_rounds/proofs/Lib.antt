mod States
mod Turns
