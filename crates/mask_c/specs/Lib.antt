pub mod Bitmap
pub mod Nullable
pub mod Strings
