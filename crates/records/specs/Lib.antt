pub mod Keys
pub mod Spelling
pub mod Grammar
pub mod Signing
pub use Rattle.fields.specs.Reading
pub use Rattle.lms_tree.specs.Lms
