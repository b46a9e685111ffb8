pub mod CodeNumbers
