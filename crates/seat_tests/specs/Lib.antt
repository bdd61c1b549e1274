pub mod Brands
