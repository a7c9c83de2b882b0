mod Cuts
mod Lines
mod Numerals
mod Sets
mod Walks
mod Headings
mod Texts
