pub mod KnownReplies
