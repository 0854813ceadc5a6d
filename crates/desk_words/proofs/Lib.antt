mod Builders
mod Dashes
mod Slots
mod Reading
mod Lines
mod Answered
