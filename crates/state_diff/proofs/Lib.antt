mod MapLaws
mod ReadOff
mod Records
