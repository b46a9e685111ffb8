mod Image
