-- Laws of what is read and written.
mod Moved
