mod CalledBy
