pub mod Crafts
