pub mod OneBrand
