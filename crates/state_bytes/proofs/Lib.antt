mod PutLaws
mod TestLaws
