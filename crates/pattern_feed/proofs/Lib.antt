mod Run
mod Formed
mod Moved
