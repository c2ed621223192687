mod TwoDigits
