-- Laws about records and about what the calls yield.
pub mod RecordLaws
pub mod ReplyLaws
pub mod CallLaws
