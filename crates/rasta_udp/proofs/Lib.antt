mod Directions
mod Tags
