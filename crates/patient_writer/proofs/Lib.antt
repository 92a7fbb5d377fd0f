mod Waiting
