mod Wrote
mod Answers
