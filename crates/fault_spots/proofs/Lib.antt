mod KindDigits
mod ToldAs
