mod Shelves
