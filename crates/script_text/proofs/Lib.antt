pub mod TextLaws
pub mod BufferLaws
pub mod CallLaws
