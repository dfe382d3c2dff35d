mod Alike
mod Cleared
mod Marked
