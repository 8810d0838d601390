mod Waiters
