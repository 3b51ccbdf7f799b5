pub mod TfmFile
pub mod DviFile
pub mod VfFile
pub mod Coded
pub mod PkFile
pub mod Sample
