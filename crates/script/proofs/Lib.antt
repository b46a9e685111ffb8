pub mod FileLaws
pub mod ScriptLaws
