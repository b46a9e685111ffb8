pub mod HeadLaws
pub mod ItemLaws
pub mod WrittenLaws
pub mod BodyLaws
pub mod CountLaws
