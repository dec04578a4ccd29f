-- A draw after a look is a draw.
mod Collections
mod Draws
mod KeyOrder
mod ClientNumbers
mod Sizes
mod UpdateResults
mod Views
