mod Ready
mod Streams
mod Words
