mod NoRoom
mod Numbers
