mod Broods
