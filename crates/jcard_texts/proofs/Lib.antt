pub mod Items
pub mod Known
pub mod QuotedTexts
