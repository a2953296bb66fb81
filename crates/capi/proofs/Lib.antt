mod Hearing
