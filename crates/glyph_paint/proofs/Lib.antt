pub mod Rasters
