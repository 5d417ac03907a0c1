mod AsBox
mod Placing
