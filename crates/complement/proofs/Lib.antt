mod SheetParts
mod Answers
mod WithoutOutput
mod Last
