pub mod Halves
pub mod MailLaws
