mod InPlace
mod Counting
mod Adding
mod Divided
mod CheckDigits
mod Settled
mod RowLine
